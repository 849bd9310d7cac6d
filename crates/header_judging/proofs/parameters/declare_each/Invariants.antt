use Rattle.std.proofs.Common.{◌≡◌, drop, length, map}
use Rattle.slang_tree.specs.DeclTree.{param_tree}
use Rattle.text_types.specs.Found.{seen}
use Rattle.type_rules.specs.Meanings.{Scope}
use Rattle.name_scopes.specs.Fits.{Fits}
use Rattle.statement_judging.specs.Keeps.{Keeps}
use Rattle.header_judging.specs.Headers.{ParamsSoFar}
use Rattle.header_judging.proofs.parameters.declare_each.Given as goal

-- The parameters so far came into scope, and what was in scope is so still.
abbrev pub invariant-loop-i : goal.invariant-loop-i
invariant-loop-i l = record {
  params : (at : Scope) → Fits l.fn.scope at
      → ParamsSoFar l.fn.told.found l.told.found l.scope at (map param_tree (drop l.i l.params)) (map param_tree l.params) (map seen (drop l.i l.types)) (map seen l.types);
  kept : Keeps l.fn.scope l.scope;
}
