-- What the end of a sequent that was not closed says.
use Rattle.std.specs.Prelude.{◌≡◌, ℕ, ◌<◌, ◌≤◌, Option, Some, None, Result, Ok, Err, ⊤}
use Rattle.store_instancing.specs.declared.end.InstEnd.{InstEnd}
use Rattle.store_instancing.specs.declared.end.InstEnd.TheVariants as inst_ends
use Rattle.store_cases.specs.declared.end.SplitEnd.{SplitEnd}
use Rattle.store_cases.specs.declared.end.SplitEnd.TheVariants as split_ends
use Rattle.store_leaves.specs.declared.end.LeafEnd.{LeafEnd}
use Rattle.store_leaves.specs.declared.end.LeafEnd.TheVariants as leaf_ends
use Rattle.whole_closing.specs.Closing.{Closing, left_open, too_many, too_large, too_many_cases, too_many_rows, too_wide}
use Rattle.store_proving.specs.declared.ending.ProveEnd.{ProveEnd}
use Rattle.store_proving.specs.declared.ending.ProveEnd.TheVariants as ends

-- The sequent is not closed for this reason, or the work was stopped, or there is no memory.
abbrev pub IsProveEnd : ProveEnd → Closing → Type 0
IsProveEnd ends.Open c = c ≡ left_open
IsProveEnd ends.Cases c = c ≡ too_many_cases
IsProveEnd ends.Rows c = c ≡ too_many_rows
IsProveEnd ends.Wide c = c ≡ too_wide
IsProveEnd ends.Size c = c ≡ too_large
IsProveEnd ends.Instances c = c ≡ too_many
IsProveEnd (ends.Stopped told) c = ⊤
IsProveEnd ends.NoMemory c = ⊤

-- the number that the end carries where the work was stopped
abbrev pub stop_of_prove : ProveEnd → Option ℕ
stop_of_prove (ends.Stopped told) = Some told
stop_of_prove ends.Open = None
stop_of_prove ends.Cases = None
stop_of_prove ends.Rows = None
stop_of_prove ends.Wide = None
stop_of_prove ends.Size = None
stop_of_prove ends.Instances = None
stop_of_prove ends.NoMemory = None

abbrev pub stop_in : {A : Type 0} → Result A ProveEnd → Option ℕ
stop_in (Ok x) = None
stop_in (Err end) = stop_of_prove end

-- the work is stopped where more is told now than its own number, and the end carries what is told
abbrev pub IsStopAt : ℕ → ℕ → Option ℕ → Type 0
IsStopAt mine now None = now ≤ mine
IsStopAt mine now (Some told) = (told ≡ now) × (mine < now)

-- How a call leaves what is told: it has not fallen, and the call was stopped exactly where it has risen above the number of the work.
pub record LeavesTold (mine before now : ℕ) (stop : Option ℕ) : Type 0 where
  pub rises : before ≤ now
  pub stopped : IsStopAt mine now stop

-- ---- ends of the calls below

abbrev pub end_of_instances : InstEnd → ProveEnd
end_of_instances inst_ends.Instances = ends.Instances
end_of_instances inst_ends.Size = ends.Size
end_of_instances inst_ends.NoMemory = ends.NoMemory

abbrev pub end_of_split : SplitEnd → ProveEnd
end_of_split split_ends.Cases = ends.Cases
end_of_split split_ends.NoMemory = ends.NoMemory

abbrev pub end_of_leaf : LeafEnd → ProveEnd
end_of_leaf leaf_ends.Open = ends.Open
end_of_leaf leaf_ends.Rows = ends.Rows
end_of_leaf leaf_ends.Wide = ends.Wide
end_of_leaf leaf_ends.NoMemory = ends.NoMemory
