-- What crypt methods and their running states mean; then the laws of the copy and of RC4.
pub mod Refusal
pub mod Running
pub mod Method
pub mod Identity
pub mod Rc4Method
pub mod Laws
