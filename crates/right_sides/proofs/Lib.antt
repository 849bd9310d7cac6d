pub mod RightSides
