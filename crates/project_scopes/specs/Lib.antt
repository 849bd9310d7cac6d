pub mod IsProject
