pub mod TypeTree
pub mod ExprTree
pub mod StmtTree
pub mod DeclTree
pub mod Rules
