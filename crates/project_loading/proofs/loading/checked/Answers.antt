use Rattle.project_loading.proofs.Texts.{faults_found, faults_read, program_read}
use Rattle.project_loading.proofs.loading.checked.Goals as goal

pub returns-in-Faults-clause-faults : goal.returns-in-Faults-clause-faults
returns-in-Faults-clause-faults c = faults_read c.args.reading c.in-Faults.faults c.in-Faults.is

pub returns-in-Files-clause-typed : goal.returns-in-Files-clause-typed
returns-in-Files-clause-typed c =
    program_read c.args.reading c.in-Files.files c.as_slice.result.now c.check_program.result c.in-Files.is c.as_slice.ensures
    c.check_program.ensures.typed c.check_program.ensures.well

pub returns-in-Files-clause-faults : goal.returns-in-Files-clause-faults
returns-in-Files-clause-faults c =
    faults_found c.args.reading c.in-Files.files c.as_slice.result.now c.check_program.result c.in-Files.is c.as_slice.ensures c.check_program.ensures.faults
