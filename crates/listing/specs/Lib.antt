-- What the programs say: 01, the end of "Examples on each side of a line", and the line of a refusal (02, Q-1 and Q-6).
pub mod Kit
pub mod Text
pub mod Answer
pub mod Refusal
