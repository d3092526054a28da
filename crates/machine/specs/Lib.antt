-- What a reader must believe: Line, CodeLine, Machine, Decoding, Printing, Program, in the specification's order, and beside these
-- Margins, Encoding, Combining, Moments and Early; Moments goes on from lent records, as `iteration_lent` of Lent does. Under inner the same
-- in the shape of the code's loops, and what these ask; proofs/ shows that it is the same.
pub mod Line
pub mod CodeLine
pub mod Machine
pub mod Decoding
pub mod Margins
pub mod Encoding
pub mod Combining
pub mod Printing
pub mod Program
pub mod Lent
pub mod Moments
pub mod Early
pub mod inner
