pub mod Words
pub mod Hex
pub mod Numbers
pub mod Texts
pub mod Results
pub mod Lists
