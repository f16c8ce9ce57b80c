-- What a call as seven numbers is, stated apart from the code.
pub mod Numbers
