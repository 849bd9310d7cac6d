pub mod IsDeclared
