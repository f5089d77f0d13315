-- What a writer does.
pub mod Put
pub mod Said
-- The words that bytes are written as, and texts of them.
pub mod Words
pub mod Rules
pub mod Coded
