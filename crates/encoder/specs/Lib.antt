-- What the loops over the tables of a code ask (Rooms); what they and the call promise are machine's own words.
pub mod inner
