-- Laws behind single functions.
mod Changes
