use Rattle.std.proofs.Common.{[], ◌∷◌, ap, ◌∙◌}
use Rattle.slang_tree.specs.ExprTree.{expr_tree, place_of}
use Rattle.program_trees.specs.Claims.{renamed_claim}
use Rattle.lk_programs.specs.Program.{noted_tree}
use Rattle.typed_texts.specs.Claims.{claim_of_tree}
use Rattle.expression_forms.specs.Context.{context_seen}
use Rattle.typed_names.specs.Nodes.{with_nodes}
use Rattle.typed_names.specs.Variables.{number_in}
use Rattle.typed_names.proofs.Made.{made_single}
use Rattle.noted_claims.proofs.noting.noted.Goals as goal

pub returns-clause-noted : goal.returns-clause-noted
returns-clause-noted c = record {
  is = λ at fits fields.
      let tree = expr_tree c.args.expr.now in
      let claim = renamed_claim (number_in c.args.numbers) (claim_of_tree at (context_seen c.args.context) tree) in
      let same = c.in_ok-claim.ensures.claim.is at fits fields in
      made_single c.args.nodes.now c.add.new.self (place_of tree) (λ n. record { claim = claim; node = n }) c.in_ok-node.node.0
      (noted_tree (record { claim = c.in_ok-claim.claim; node = c.in_ok-node.node }))
      c.in_ok-node.ensures.number
      (c.in_ok-node.ensures.added ∙ ap (λ p. with_nodes c.args.nodes.now (p ∷ [])) c.place_of.ensures)
      (λ i. record { claim = same i; node = c.in_ok-node.node.0 });
}
