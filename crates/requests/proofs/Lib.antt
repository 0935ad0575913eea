mod Cuts
mod Decimals
mod Fitting
mod Spelling
mod Written
