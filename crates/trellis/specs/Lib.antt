-- What a reader must believe, in the specification's order: the field, one check, the record, the replies. "SPEC" in a comment is a paragraph of
-- docs/SPECIFICATION.md. Under inner what mirrors a loop.
pub mod Lists
pub mod Field
pub mod Check
pub mod Record
pub mod Before
pub mod Rows
pub mod Sweep
pub mod Rules
pub mod Ready
pub mod Display
pub mod Kept
pub mod Reply
pub mod Refusals
pub mod Sizes
pub mod Bench
pub mod inner
