-- What a reader must believe: Window, the registers and a write to them; Meaning, how the struct of src/ is read as these; Writes, the two
-- claims about lists of writes.
pub mod Window
pub mod Meaning
pub mod Writes
