-- The shape of the loops; the call's own promise is machine's combining.
pub mod inner
