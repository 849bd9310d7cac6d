-- What is printed lightly of the tree of a text nests no deeper than a text may.
use Rattle.std.proofs.Common.{true, [], arith}
use Rattle.slang_tokens.specs.Tokens.{weight_limit}
use Rattle.slang_grammar.specs.Texts.{file_tokens, file_tree}
use Rattle.print_declarations.specs.Accounts.{file_account}
use Rattle.print_declarations.proofs.Back.{account_is_file}
use Rattle.light_files.specs.Laws.{FilesAreLightest}
use Rattle.light_files.proofs.Counts.{light_from, light_to}
use Rattle.light_files.proofs.Declarations.{file_inside}
use Rattle.light_files.proofs.Files.{file_lighter}

pub files_are_lightest : FilesAreLightest
files_are_lightest file g light =
    let own = file_inside weight_limit file g in
    let printed = file_inside weight_limit (file_account true (file_tree file)) (account_is_file true file g) in
    let h = own.needs [] (omega arith) (light_from weight_limit [] (file_tokens file) light) in
    let k = file_lighter file g (omega (arith, h)) in
    light_to weight_limit [] (file_tokens (file_account true (file_tree file))) (printed.suffices [] (omega (arith, h, k)))
