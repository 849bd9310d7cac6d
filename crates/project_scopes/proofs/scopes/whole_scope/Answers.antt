use Rattle.std.proofs.Common.{map}
use Rattle.type_rules.specs.Projects.{meanings_declared, outline_names, outline_of, record_fields}
use Rattle.project_files.specs.Files.{decl_of}
use Rattle.project_scopes.proofs.scopes.whole_scope.Goals as goal

pub returns-clause-fits : goal.returns-clause-fits
returns-clause-fits c = λ fits numbers allowed.
    let decls = map decl_of c.args.decls.now in
    c.scope_over.ensures.fits (meanings_declared (outline_of decls) decls 0 0 decls) (record_fields decls)
    (c.in_ok-names.ensures.known (outline_of decls) fits numbers)
    (c.in_ok-records.ensures (outline_names decls) fits.names allowed)
