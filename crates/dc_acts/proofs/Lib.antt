mod Counting
mod Cutting
mod Owning
