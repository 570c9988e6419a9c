mod Making
mod Questions
mod Uniform
mod Walking
