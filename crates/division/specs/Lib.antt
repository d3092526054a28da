-- The table of inverses by one test that computes, and quotients as the code answers them.
pub mod inner
pub mod Numbers
