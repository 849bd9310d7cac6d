use Rattle.slang_tree.specs.DeclTree.{file_tree}
use Rattle.print_tokens.proofs.Whole.{printed_bytes_read_back}
use Rattle.slang_print.proofs.print_file.Goals as goal

pub returns-in_err-write_file-clause-reads_back : goal.returns-in_err-write_file-clause-reads_back
returns-in_err-write_file-clause-reads_back g c = λ bytes read. printed_bytes_read_back bytes read (file_tree c.args.file.now)

pub returns-in-Ok-clause-reads_back : goal.returns-in-Ok-clause-reads_back
returns-in-Ok-clause-reads_back g c = λ bytes read. printed_bytes_read_back bytes read (file_tree c.args.file.now)

pub returns-in-Err-Failed-clause-reads_back : goal.returns-in-Err-Failed-clause-reads_back
returns-in-Err-Failed-clause-reads_back g c = λ bytes read. printed_bytes_read_back bytes read (file_tree c.args.file.now)

pub returns-clause-reads_back : goal.returns-clause-reads_back
returns-clause-reads_back g c = λ bytes read. printed_bytes_read_back bytes read (file_tree c.args.file.now)
