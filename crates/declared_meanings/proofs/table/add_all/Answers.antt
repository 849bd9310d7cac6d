use Rattle.std.proofs.Common.{◌≡◌, ◌∙◌, ◌+◌, [], ap, map, drop, subst, sym}
use Rattle.type_rules.specs.Projects.{count_if}
use Rattle.name_scopes.specs.Fits.{Fits}
use Rattle.project_files.specs.Files.{decl_of}
use Rattle.declared_meanings.specs.Declares.{DeclaresSoFar}
use Rattle.declared_meanings.proofs.Names.{declares_all, declares_next, drop_all, numbered}
use Rattle.declared_meanings.proofs.table.add_all.Goals as goal

pub loop-decl-preserved : goal.loop-decl-preserved
loop-decl-preserved c =
    let i = c.loop-decl.decl-index in
    let decls = c.args.decls.now in
    let all = map decl_of decls in
    let decl = c.decl-item.result in (
      λ at fits numbers none.
          declares_next c.loop-decl.names c.add_decl.new.names at all decls i decl c.loop-decl.globals c.loop-decl.records c.in_ok-globals.globals c.in_ok-records.records
          c.loop-decl-test.true c.decl-item.is
          (c.in_ok-globals.ensures.1 ∙ ap (λ b. c.loop-decl.globals + count_if b) c.is_global.ensures)
          (c.in_ok-records.ensures.1 ∙ ap (λ b. c.loop-decl.records + count_if b) c.is_record.ensures)
          (λ done knows. c.in_ok-add_decl.ensures.known at all done (subst (λ o. Fits o at) (sym c.loop-decl.invariant.1) fits)
          (numbered c.args.numbers.now decls i decl c.loop-decl-test.true c.decl-item.is numbers) knows)
          (c.loop-decl.invariant.0 at fits numbers none),
      c.in_ok-add_decl.ensures.scope ∙ c.loop-decl.invariant.1,
    )

pub returns-clause-known : goal.returns-clause-known
returns-clause-known c = λ at fits numbers none.
    let all = map decl_of c.args.decls.now in
    declares_all c.loop-decl.names at all c.loop-decl.globals c.loop-decl.records
    (subst (λ ds. DeclaresSoFar c.loop-decl.names at all c.loop-decl.globals c.loop-decl.records (map decl_of ds))
    (drop_all c.args.decls.now c.loop-decl.decl-index c.loop-decl-test.false) (c.loop-decl.invariant.0 at fits numbers none))
