-- What only inner contracts cite: what a step relies on, and the calls on words cut to their capacities.
pub mod Steppable
pub mod Cuts
pub mod Opening
pub mod Reading
