use Rattle.std.proofs.Common.{subst, sym}
use Rattle.std.proofs.lemmas.Result.{on_ok_weaker}
use Rattle.slang_tree.specs.DeclTree.{file_tree}
use Rattle.slang_grammar.specs.Texts.{Reads}
use Rattle.slang_grammar.specs.Faults.{HasFault}
use Rattle.text_parser.specs.Ends.{IfFault}
use Rattle.project_reading.specs.Texts.{text_seen}
use Rattle.project_reading.proofs.Progress.{with_fault, with_file}
use Rattle.project_reading.proofs.read.read_text.Goals as goal

pub returns-in-Ok : goal.returns-in-Ok
returns-in-Ok c =
    let reads = subst (λ bytes. Reads bytes (file_tree c.in-Ok.tree)) c.as_slice.ensures.value c.in-Ok.ensures.read in
    on_ok_weaker c.add_file.result
    (λ added before.
    with_file before c.args.files.now c.add_file.new.files c.args.faults.now (text_seen c.args.text.now) c.as_str.result.now c.in-Ok.tree
    c.as_str.ensures.value added reads)
    c.add_file.ensures

pub returns-in-Err-Fault : goal.returns-in-Err-Fault
returns-in-Err-Fault c =
    let has : HasFault (text_seen c.args.text.now).bytes c.in-Err-Fault.fault =
    subst (λ bytes. HasFault bytes c.in-Err-Fault.fault) c.as_slice.ensures.value
    (subst (λ end. IfFault end (HasFault c.as_slice.result.now)) c.in-Err-Fault.field-0-is c.in-Err-Fault.ensures.fault) in
    on_ok_weaker c.add_fault.result
    (λ added before.
    with_fault before c.args.files.now c.args.faults.now c.add_fault.new.faults (text_seen c.args.text.now) c.as_str-in-Err-Fault.result.now c.in-Err-Fault.fault
    c.as_str-in-Err-Fault.ensures.value added has)
    c.add_fault.ensures
