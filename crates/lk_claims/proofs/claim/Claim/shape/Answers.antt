use Rattle.slang_values.specs.Tree.{update, quantified, listed, sequence_of, record_of}
use Rattle.slang_values.specs.declared.operators.Unary.{Unary}
use Rattle.slang_values.specs.declared.operators.Binary.{Binary}
use Rattle.slang_values.specs.declared.operators.Quantifier.{Quantifier}
use Rattle.lk_claims.specs.declared.claim.Claim.TheVariants.{Neg, Not, Add, Sub, Mul, Div, Rem, And, Or, Imply, Eq, Lt, Le, Size, Read, Update, Append, SeqLit, Rec, Field, All, Exists}
use Rattle.lk_claims.specs.Claim.{value_type}
use Rattle.lk_claims.proofs.Trees.{claim_tree-Neg, claim_tree-Not, claim_tree-Add, claim_tree-Sub, claim_tree-Mul, claim_tree-Div, claim_tree-Rem, claim_tree-And, claim_tree-Or, claim_tree-Imply, claim_tree-Eq, claim_tree-Lt, claim_tree-Le, claim_tree-Size, claim_tree-Read, claim_tree-Update, claim_tree-Append, claim_tree-SeqLit, claim_tree-Rec, claim_tree-Field, claim_tree-All, claim_tree-Exists}
use Rattle.lk_claims.proofs.Sizes.{size-Neg, size-Not, size-Add_first, size-Add_second, size-Sub_first, size-Sub_second, size-Mul_first, size-Mul_second, size-Div_first, size-Div_second, size-Rem_first, size-Rem_second, size-And_first, size-And_second, size-Or_first, size-Or_second, size-Imply_first, size-Imply_second, size-Eq_first, size-Eq_second, size-Lt_first, size-Lt_second, size-Le_first, size-Le_second, size-Size, size-Read_first, size-Read_second, size-Update_first, size-Update_second, size-Update_third, size-Append_first, size-Append_second, size-SeqLit, size-Rec, size-Field, size-All_first, size-All_second, size-All_third, size-Exists_first, size-Exists_second, size-Exists_third}
use Rattle.lk_claims.proofs.Shapes.{told_unary, told_binary, told_ternary, told_listed}
use Rattle.lk_claims.proofs.claim.Claim.shape.Goals as goal

pub returns-in-Neg : goal.returns-in-Neg
returns-in-Neg c = told_unary Neg Unary.Neg claim_tree-Neg size-Neg c.args.self.now c.in-Neg.a c.get.result.now c.in-Neg.is c.get.ensures

pub returns-in-Not : goal.returns-in-Not
returns-in-Not c = told_unary Not Unary.Not claim_tree-Not size-Not c.args.self.now c.in-Not.a c.get-in-Not.result.now c.in-Not.is c.get-in-Not.ensures

pub returns-in-Add : goal.returns-in-Add
returns-in-Add c = told_binary Add Binary.Add claim_tree-Add size-Add_first size-Add_second c.args.self.now c.in-Add.a c.in-Add.b c.get-in-Add.result.now c.get-in-Add-2.result.now c.in-Add.is c.get-in-Add.ensures c.get-in-Add-2.ensures

pub returns-in-Sub : goal.returns-in-Sub
returns-in-Sub c = told_binary Sub Binary.Sub claim_tree-Sub size-Sub_first size-Sub_second c.args.self.now c.in-Sub.a c.in-Sub.b c.get-in-Sub.result.now c.get-in-Sub-2.result.now c.in-Sub.is c.get-in-Sub.ensures c.get-in-Sub-2.ensures

pub returns-in-Mul : goal.returns-in-Mul
returns-in-Mul c = told_binary Mul Binary.Mul claim_tree-Mul size-Mul_first size-Mul_second c.args.self.now c.in-Mul.a c.in-Mul.b c.get-in-Mul.result.now c.get-in-Mul-2.result.now c.in-Mul.is c.get-in-Mul.ensures c.get-in-Mul-2.ensures

pub returns-in-Div : goal.returns-in-Div
returns-in-Div c = told_binary Div Binary.Div claim_tree-Div size-Div_first size-Div_second c.args.self.now c.in-Div.a c.in-Div.b c.get-in-Div.result.now c.get-in-Div-2.result.now c.in-Div.is c.get-in-Div.ensures c.get-in-Div-2.ensures

pub returns-in-Rem : goal.returns-in-Rem
returns-in-Rem c = told_binary Rem Binary.Rem claim_tree-Rem size-Rem_first size-Rem_second c.args.self.now c.in-Rem.a c.in-Rem.b c.get-in-Rem.result.now c.get-in-Rem-2.result.now c.in-Rem.is c.get-in-Rem.ensures c.get-in-Rem-2.ensures

pub returns-in-And : goal.returns-in-And
returns-in-And c = told_binary And Binary.And claim_tree-And size-And_first size-And_second c.args.self.now c.in-And.a c.in-And.b c.get-in-And.result.now c.get-in-And-2.result.now c.in-And.is c.get-in-And.ensures c.get-in-And-2.ensures

pub returns-in-Or : goal.returns-in-Or
returns-in-Or c = told_binary Or Binary.Or claim_tree-Or size-Or_first size-Or_second c.args.self.now c.in-Or.a c.in-Or.b c.get-in-Or.result.now c.get-in-Or-2.result.now c.in-Or.is c.get-in-Or.ensures c.get-in-Or-2.ensures

pub returns-in-Imply : goal.returns-in-Imply
returns-in-Imply c = told_binary Imply Binary.Imply claim_tree-Imply size-Imply_first size-Imply_second c.args.self.now c.in-Imply.a c.in-Imply.b c.get-in-Imply.result.now c.get-in-Imply-2.result.now c.in-Imply.is c.get-in-Imply.ensures c.get-in-Imply-2.ensures

pub returns-in-Eq : goal.returns-in-Eq
returns-in-Eq c = told_binary Eq Binary.Eq claim_tree-Eq size-Eq_first size-Eq_second c.args.self.now c.in-Eq.a c.in-Eq.b c.get-in-Eq.result.now c.get-in-Eq-2.result.now c.in-Eq.is c.get-in-Eq.ensures c.get-in-Eq-2.ensures

pub returns-in-Lt : goal.returns-in-Lt
returns-in-Lt c = told_binary Lt Binary.Lt claim_tree-Lt size-Lt_first size-Lt_second c.args.self.now c.in-Lt.a c.in-Lt.b c.get-in-Lt.result.now c.get-in-Lt-2.result.now c.in-Lt.is c.get-in-Lt.ensures c.get-in-Lt-2.ensures

pub returns-in-Le : goal.returns-in-Le
returns-in-Le c = told_binary Le Binary.Le claim_tree-Le size-Le_first size-Le_second c.args.self.now c.in-Le.a c.in-Le.b c.get-in-Le.result.now c.get-in-Le-2.result.now c.in-Le.is c.get-in-Le.ensures c.get-in-Le-2.ensures

pub returns-in-Size : goal.returns-in-Size
returns-in-Size c = told_unary Size Unary.Size claim_tree-Size size-Size c.args.self.now c.in-Size.a c.get-in-Size.result.now c.in-Size.is c.get-in-Size.ensures

pub returns-in-Read : goal.returns-in-Read
returns-in-Read c = told_binary Read Binary.Read claim_tree-Read size-Read_first size-Read_second c.args.self.now c.in-Read.a c.in-Read.i c.get-in-Read.result.now c.get-in-Read-2.result.now c.in-Read.is c.get-in-Read.ensures c.get-in-Read-2.ensures

pub returns-in-Update : goal.returns-in-Update
returns-in-Update c =
    told_ternary Update update claim_tree-Update size-Update_first size-Update_second size-Update_third c.args.self.now c.in-Update.a c.in-Update.i c.in-Update.x c.get-in-Update.result.now c.get-in-Update-2.result.now c.get-in-Update-3.result.now c.in-Update.is c.get-in-Update.ensures c.get-in-Update-2.ensures c.get-in-Update-3.ensures

pub returns-in-Append : goal.returns-in-Append
returns-in-Append c = told_binary Append Binary.Append claim_tree-Append size-Append_first size-Append_second c.args.self.now c.in-Append.a c.in-Append.x c.get-in-Append.result.now c.get-in-Append-2.result.now c.in-Append.is c.get-in-Append.ensures c.get-in-Append-2.ensures

pub returns-in-SeqLit : goal.returns-in-SeqLit
returns-in-SeqLit c = told_listed (SeqLit c.in-SeqLit.s) (listed (sequence_of (value_type c.in-SeqLit.s))) (claim_tree-SeqLit c.in-SeqLit.s) (size-SeqLit c.in-SeqLit.s) c.args.self.now c.in-SeqLit.ts c.as_slice.result.now c.in-SeqLit.is c.as_slice.ensures

pub returns-in-Rec : goal.returns-in-Rec
returns-in-Rec c = told_listed (Rec c.in-Rec.n) (listed (record_of c.in-Rec.n)) (claim_tree-Rec c.in-Rec.n) (size-Rec c.in-Rec.n) c.args.self.now c.in-Rec.ts c.as_slice-in-Rec.result.now c.in-Rec.is c.as_slice-in-Rec.ensures

pub returns-in-Field : goal.returns-in-Field
returns-in-Field c =
    told_unary (λ a. Field a c.in-Field.k) (Unary.Field c.in-Field.k) (λ a. claim_tree-Field a c.in-Field.k) (λ a. size-Field a c.in-Field.k) c.args.self.now c.in-Field.a c.get-in-Field.result.now c.in-Field.is c.get-in-Field.ensures

pub returns-in-All : goal.returns-in-All
returns-in-All c =
    told_ternary All (quantified Quantifier.All) claim_tree-All size-All_first size-All_second size-All_third c.args.self.now c.in-All.low c.in-All.high c.in-All.body c.get-in-All.result.now c.get-in-All-2.result.now c.get-in-All-3.result.now c.in-All.is c.get-in-All.ensures c.get-in-All-2.ensures c.get-in-All-3.ensures

pub returns-in-Exists : goal.returns-in-Exists
returns-in-Exists c =
    told_ternary Exists (quantified Quantifier.Exists) claim_tree-Exists size-Exists_first size-Exists_second size-Exists_third c.args.self.now c.in-Exists.low c.in-Exists.high c.in-Exists.body c.get-in-Exists.result.now c.get-in-Exists-2.result.now c.get-in-Exists-3.result.now c.in-Exists.is c.get-in-Exists.ensures c.get-in-Exists-2.ensures c.get-in-Exists-3.ensures
