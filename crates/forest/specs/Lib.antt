-- What a reader must believe of trees: what a tree is, which trees a forest lists and in which order, and what it is to have every tree once.
pub mod Trees
pub mod Lists
pub mod Forests
pub mod Order
pub mod Every
pub mod Stores
