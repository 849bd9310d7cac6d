use Rattle.slang_values.specs.declared.operators.Binary.{Binary}
use Rattle.lk_claims.specs.declared.claim.Claim.TheVariants.{Add, Sub, Mul, Div, Rem, And, Or, Imply, Eq, Lt, Le, Read, Append}
use Rattle.lk_claims.proofs.Trees.{claim_tree-Add, claim_tree-Sub, claim_tree-Mul, claim_tree-Div, claim_tree-Rem, claim_tree-And, claim_tree-Or, claim_tree-Imply, claim_tree-Eq, claim_tree-Lt, claim_tree-Le, claim_tree-Read, claim_tree-Append}
use Rattle.lk_claims.proofs.Shapes.{made_binary}
use Rattle.lk_claims.proofs.claim.Claim.binary.Goals as goal

pub returns-in-Add : goal.returns-in-Add
returns-in-Add c = made_binary Add Binary.Add claim_tree-Add c.args.a c.args.b c.in_ok-a.a c.in_ok-a.b c.args.op c.in-Add.is (c.in_ok-a.ensures.0) (c.in_ok-a.ensures.1)

pub returns-in-Sub : goal.returns-in-Sub
returns-in-Sub c = made_binary Sub Binary.Sub claim_tree-Sub c.args.a c.args.b c.in_ok-a.a c.in_ok-a.b c.args.op c.in-Sub.is (c.in_ok-a.ensures.0) (c.in_ok-a.ensures.1)

pub returns-in-Mul : goal.returns-in-Mul
returns-in-Mul c = made_binary Mul Binary.Mul claim_tree-Mul c.args.a c.args.b c.in_ok-a.a c.in_ok-a.b c.args.op c.in-Mul.is (c.in_ok-a.ensures.0) (c.in_ok-a.ensures.1)

pub returns-in-Div : goal.returns-in-Div
returns-in-Div c = made_binary Div Binary.Div claim_tree-Div c.args.a c.args.b c.in_ok-a.a c.in_ok-a.b c.args.op c.in-Div.is (c.in_ok-a.ensures.0) (c.in_ok-a.ensures.1)

pub returns-in-Rem : goal.returns-in-Rem
returns-in-Rem c = made_binary Rem Binary.Rem claim_tree-Rem c.args.a c.args.b c.in_ok-a.a c.in_ok-a.b c.args.op c.in-Rem.is (c.in_ok-a.ensures.0) (c.in_ok-a.ensures.1)

pub returns-in-And : goal.returns-in-And
returns-in-And c = made_binary And Binary.And claim_tree-And c.args.a c.args.b c.in_ok-a.a c.in_ok-a.b c.args.op c.in-And.is (c.in_ok-a.ensures.0) (c.in_ok-a.ensures.1)

pub returns-in-Or : goal.returns-in-Or
returns-in-Or c = made_binary Or Binary.Or claim_tree-Or c.args.a c.args.b c.in_ok-a.a c.in_ok-a.b c.args.op c.in-Or.is (c.in_ok-a.ensures.0) (c.in_ok-a.ensures.1)

pub returns-in-Imply : goal.returns-in-Imply
returns-in-Imply c = made_binary Imply Binary.Imply claim_tree-Imply c.args.a c.args.b c.in_ok-a.a c.in_ok-a.b c.args.op c.in-Imply.is (c.in_ok-a.ensures.0) (c.in_ok-a.ensures.1)

pub returns-in-Eq : goal.returns-in-Eq
returns-in-Eq c = made_binary Eq Binary.Eq claim_tree-Eq c.args.a c.args.b c.in_ok-a.a c.in_ok-a.b c.args.op c.in-Eq.is (c.in_ok-a.ensures.0) (c.in_ok-a.ensures.1)

pub returns-in-Lt : goal.returns-in-Lt
returns-in-Lt c = made_binary Lt Binary.Lt claim_tree-Lt c.args.a c.args.b c.in_ok-a.a c.in_ok-a.b c.args.op c.in-Lt.is (c.in_ok-a.ensures.0) (c.in_ok-a.ensures.1)

pub returns-in-Le : goal.returns-in-Le
returns-in-Le c = made_binary Le Binary.Le claim_tree-Le c.args.a c.args.b c.in_ok-a.a c.in_ok-a.b c.args.op c.in-Le.is (c.in_ok-a.ensures.0) (c.in_ok-a.ensures.1)

pub returns-in-Read : goal.returns-in-Read
returns-in-Read c = made_binary Read Binary.Read claim_tree-Read c.args.a c.args.b c.in_ok-a.a c.in_ok-a.b c.args.op c.in-Read.is (c.in_ok-a.ensures.0) (c.in_ok-a.ensures.1)

pub returns-in-Append : goal.returns-in-Append
returns-in-Append c = made_binary Append Binary.Append claim_tree-Append c.args.a c.args.b c.in_ok-a.a c.in_ok-a.b c.args.op c.in-Append.is (c.in_ok-a.ensures.0) (c.in_ok-a.ensures.1)
