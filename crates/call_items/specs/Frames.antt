-- What the claims of a frame's method are about.
use Rattle.std.specs.Prelude.{ℕ, Bool, true, false, List, [], ◌∷◌, map, if◌then◌else◌}
use Rattle.std.specs.List.{flat_map, range_with_len}
use Rattle.slang_values.specs.Value.{ValueType, unit_type}
use Rattle.program_trees.specs.Claims.{NotedTree, renamed_noted}
use Rattle.program_trees.specs.Variables.{Variable, entry, same_variable}
use Rattle.lk_programs.specs.declared.program.Noted.{Noted}
use Rattle.lk_programs.specs.Program.{noted_tree}
use Rattle.leg_rules.specs.LegNames.{LegName, own, of_call}
use Rattle.leg_rules.specs.Mentions.{some_mention}
use Rattle.leg_items.specs.declared.name.Scope.{Scope}
use Rattle.leg_items.specs.declared.name.Frame.{Frame}
use Rattle.leg_items.specs.declared.name.Frame.TheVariants as f
use Rattle.leg_items.specs.Names.{kind_of}

-- how the variables of the frame's method are numbered
abbrev pub frame_scope : Frame → Scope
frame_scope (f.Own scope) = scope
frame_scope (f.Call node method scope) = scope

-- a variable of the frame's method itself, which is a parameter, an entry value or the result
abbrev pub frame_variable : Frame → Variable → LegName
frame_variable (f.Own scope) x = own x
frame_variable (f.Call node method scope) x = of_call node.0 method x

-- claims over the method's variables by their kinds
abbrev pub claims_in : Scope → List Noted → List (NotedTree Variable)
claims_in scope claims = map (renamed_noted (kind_of scope)) (map noted_tree claims)

-- the globals, of so many, whose entry values the claims name, in the order of declaration
abbrev pub entries_among : ℕ → List (NotedTree Variable) → List ℕ
entries_among globals claims = flat_map (λ g. if some_mention (same_variable (entry g)) claims then g ∷ [] else []) (range_with_len 0 globals)

-- a method of the type has a result
abbrev pub is_given : ValueType → Bool
is_given unit_type = false
is_given t = true
