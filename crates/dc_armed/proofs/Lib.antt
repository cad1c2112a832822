mod Coming
mod Copies
mod Counting
mod Firsts
mod Parting
mod Rows
mod Surviving
mod Punctual
