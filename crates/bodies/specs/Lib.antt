pub mod Sound
pub mod Automaton
