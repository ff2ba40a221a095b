mod FormLemmas
mod Resting
