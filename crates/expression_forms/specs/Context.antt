-- Where an expression stands, as the rules see it.
use Rattle.std.specs.Option.{option_map}
use Rattle.type_rules.specs.Expressions.{Context, in_program, in_claim, in_ensures, in_proof}
use Rattle.text_types.specs.TextType.{text_value}
use Rattle.expression_forms.specs.declared.context.Context.{Context as CodeContext}
use Rattle.expression_forms.specs.declared.context.Context.TheVariants as c

abbrev pub context_seen : CodeContext → Context
context_seen c.Program = in_program
context_seen c.Claim = in_claim
context_seen (c.Ensures result) = in_ensures (option_map text_value result)
context_seen c.Proof = in_proof
