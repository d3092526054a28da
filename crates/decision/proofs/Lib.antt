-- Laws over lists of costs, which serve both widths; a function's own proof stands in a folder of its name.
pub mod Searching
