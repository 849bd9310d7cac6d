use Rattle.sound_trees.proofs.Declarations.{read_trees_are_sound}
use Rattle.sound_trees.proofs.laws.read_trees_are_sound.Goals as goal

pub returns : goal.returns
returns c = read_trees_are_sound
