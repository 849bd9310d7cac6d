use Rattle.std.proofs.Common.{map, ◌+◌, ◌-◌, Some, sym, ap, ◌∙◌, arith}
use Rattle.program_trees.specs.Claims.{block}
use Rattle.key_rules.specs.Codes.{flag_code, flags}
use Rattle.key_rules.specs.Readers.{and_then, given, ◌>>=◌, read_coded, read_list, read_number}
use Rattle.key_rules.specs.Reading.{read_claim, read_step, steps_of}
use Rattle.key_cursor.specs.Reads.{left}
use Rattle.key_cursor.proofs.Members.{member_joined}
use Rattle.key_cursor.proofs.Reading.{both_read}
use Rattle.lk_claims.specs.Claim.{claim_tree}
use Rattle.lk_claims.specs.Step.{step_tree}
use Rattle.lk_claims.proofs.Steps.{step_tree-Sub}
use Rattle.key_reader.specs.Heads.{step_head_data}
use Rattle.key_reader.proofs.StepHeads.{step_known, step_unknown, same_steps}
use Rattle.key_reader.proofs.steps.+steps.Goals as goal

pub read_step-returns-in-Some : goal.read_step-returns-in-Some
read_step-returns-in-Some t c =
    step_known c.args.depth (c.args.depth - 1) (left c.args.cursor.now) (left c.read_byte.new.self) (left c.read_behind.new.cursor) c.in_ok-byte.byte
    (step_head_data c.in-Some.head) c.read_behind.result (omega arith) c.in_ok-byte.ensures.reads c.in-Some.ensures c.read_behind.ensures

pub read_step-returns-in-None : goal.read_step-returns-in-None
read_step-returns-in-None t c =
    step_unknown c.args.depth (c.args.depth - 1) (left c.args.cursor.now) (left c.read_byte.new.self) c.in_ok-byte.byte (omega arith)
    c.in_ok-byte.ensures.reads c.in-None.ensures

pub read_block-returns : goal.read_block-returns
read_block-returns t c =
    let label = c.in_ok-label.label in
    let bind = c.in_ok-bind.bind in
    let assumed = c.in_ok-assumed.assumed in
    let claim = c.in_ok-assumption.assumption in
    let steps = c.in_ok-assumption.steps in
    ap (and_then (λ l. read_coded flag_code flags >>= λ f. read_number >>= λ n. read_claim c.args.depth >>= λ a. read_list (read_step c.args.depth) >>= λ ss.
    given (block l f n a (steps_of ss)))) c.in_ok-label.ensures.reads
    ∙ ap (and_then (λ f. read_number >>= λ n. read_claim c.args.depth >>= λ a. read_list (read_step c.args.depth) >>= λ ss. given (block label f n a (steps_of ss))))
    c.in_ok-bind.ensures
    ∙ ap (and_then (λ n. read_claim c.args.depth >>= λ a. read_list (read_step c.args.depth) >>= λ ss. given (block label bind n a (steps_of ss))))
    c.in_ok-assumed.ensures.reads
    ∙ both_read claim_tree (map step_tree) (read_claim c.args.depth) (read_list (read_step c.args.depth)) (λ a ss. given (block label bind assumed a (steps_of ss)))
    (left c.read_number-2.new.self) (left c.read_claim.new.cursor) (left c.read_steps.new.cursor) c.read_claim.result c.read_steps.result claim steps
    c.read_claim.ensures c.read_steps.ensures c.in_ok-assumption.ensures.parts.0 c.in_ok-assumption.ensures.parts.1
    ∙ ap (λ ss. Some (block label bind assumed (claim_tree claim) ss, left c.read_steps.new.cursor)) (sym (same_steps (map step_tree steps)))
    ∙ ap (λ s. Some (s, left c.read_steps.new.cursor)) (sym (step_tree-Sub label bind assumed claim steps))

pub add_steps-loop-preserved : goal.add_steps-loop-preserved
add_steps-loop-preserved t c =
    c.loop.invariant
    ∙ member_joined step_tree (read_step c.args.depth) (c.args.count - c.loop.counter) (c.args.count - (c.loop.counter + 1)) c.loop.steps c.push.new.self
    c.in_ok-step.step (left c.loop.cursor) (left c.read_step.new.cursor) (omega arith) c.in_ok-step.ensures c.in_ok-push.ensures.ok
