-- What comes of instancing, by what is answered.
use Rattle.std.specs.Prelude.{◌≡◌, ⊤}
use Rattle.validity.specs.Validity.{SequentTree}
use Rattle.instance_rules.specs.Instances.{Instancing, too_many_instances, too_large_instance, instanced}
use Rattle.store_instancing.specs.declared.end.InstEnd.{InstEnd}
use Rattle.store_instancing.specs.declared.end.Instanced.{Instanced}

-- what comes of instancing
abbrev pub IsInstancedAs : Instanced → SequentTree → Instancing → Type 0
IsInstancedAs Instanced.Added s i = i ≡ instanced s
IsInstancedAs Instanced.TooMany s i = i ≡ too_many_instances
IsInstancedAs Instanced.TooLarge s i = i ≡ too_large_instance

-- the answer is that of instancing
abbrev pub IsEndOf : InstEnd → Instancing → Type 0
IsEndOf InstEnd.Instances i = i ≡ too_many_instances
IsEndOf InstEnd.Size i = i ≡ too_large_instance
IsEndOf InstEnd.NoMemory i = ⊤
