use Rattle.exec_tests.proofs.following.follow.Goals as goal

pub add_calls-requires : goal.add_calls-requires
add_calls-requires c = c.in_ok-exec.ensures.ready c.args.store.now
