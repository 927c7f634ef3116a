-- Laws of a written last list: number by number into the place; the answer by how the replay ends; and one answer.
pub mod LastList
pub mod Endings
pub mod Answers
