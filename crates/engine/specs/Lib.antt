-- Under inner what the loops of one check compute. The reader's definitions are those of trellis.
pub mod inner
