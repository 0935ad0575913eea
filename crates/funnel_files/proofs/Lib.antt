mod HeldOnes
mod Passes
mod Rests
