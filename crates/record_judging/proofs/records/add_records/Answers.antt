use Rattle.std.proofs.Common.{◌≡◌, ◌+◌, [], filter_map, map, subst, sym, take}
use Rattle.slang_tree.specs.DeclTree.{field_tree}
use Rattle.type_rules.specs.Projects.{fields_from, record_of, records_from}
use Rattle.project_files.specs.Files.{decl_of}
use Rattle.record_judging.specs.Fields.{AreAllowed, AreFields, IsFields}
use Rattle.record_judging.specs.Written.{written_with}
use Rattle.record_judging.proofs.Table.{no_record_next, record_next}
use Rattle.record_judging.proofs.records.add_records.Goals as goal
use Rattle.record_judging.proofs.records.add_records.Goals.{in-None, in-Some+in_ok-known-in-Some+in_ok-push-in-Some}

pub loop-decl-preserved : goal.loop-decl-preserved
loop-decl-preserved c = λ names knows allowed none.
    let i = c.loop-decl.decl-index in
    let decls = c.args.decls.now in
    let decl = c.decl-item.result in
    let written = written_with names (map decl_of decls) in
    let after = records_from names written 0 (filter_map record_of (map decl_of (take (i + 1) decls))) in
    let before = c.loop-decl.invariant names knows allowed none in
    elim c.match-record_of.branch [
      | in-None w ↦
          subst (λ t. AreFields t after) (sym w.records-is)
          (no_record_next names written decls i decl c.loop-decl.records c.loop-decl-test.true c.decl-item.is w.in-None.ensures before)
      | in-Some+in_ok-known-in-Some+in_ok-push-in-Some w ↦
          subst (λ t. AreFields t after) (sym w.records-is)
          (record_next names decls i decl c.loop-decl.records w.push.new.self w.in_ok-known-in-Some.known c.args.allowed.now w.allowed_of-own.result.now w.len.result _
          c.loop-decl-test.true c.decl-item.is w.in-Some.ensures w.in_ok-push-in-Some.ensures.ok allowed w.len.ensures w.allowed_of-own.ensures
          (subst (λ fs. AreAllowed w.allowed_of-own.result.now names written w.len.result (map field_tree fs)
          → IsFields w.in_ok-known-in-Some.known (fields_from names written w.len.result 0 (map field_tree fs))) w.as_slice.ensures
          (w.in_ok-known-in-Some.ensures.fields names written w.len.result knows)) before)
    ]
