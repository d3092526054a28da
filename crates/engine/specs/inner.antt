-- What the loops of one check compute: each column's line, tables of what is left of 255 over the columns before and after a column, the
-- bytes of a group.
pub mod Terms
pub mod Lines
pub mod Rests
pub mod Groups
