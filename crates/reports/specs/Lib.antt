-- What is told of a running parse: what could stand next, and its latest set, into places that a host lends.
pub mod Decimal
pub mod Lists
pub mod Answers
pub mod Sentences
pub mod inner
