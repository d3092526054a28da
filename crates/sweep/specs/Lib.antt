-- What a reader must believe: Kept, what the two sweeps keep; the replies are those of checknode. Worked is one check in numbers. Under
-- inner what the loops do.
pub mod inner
pub mod Kept
pub mod Worked
