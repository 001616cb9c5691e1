-- An instruction may go to another thread, and so may each delegated part. The toolchain writes no such proof for a type that holds a tree, since trees hold trees.
use denote.Param.Send.{IsSend, IsSync, sendable}
use Rattle.std.proofs.Crossing.{crosses}
use Rattle.fancy_regex_tree.proofs.expr.Absent.TheLaws.TheKnot as tree
use Rattle.fancy_regex_tree.proofs.expr.Assertion.TheSendSync as assertion
use Rattle.fancy_regex_tree.proofs.expr.BacktrackingControlVerb.TheSendSync as verb
use Rattle.fancy_regex_tree.proofs.expr.CaptureGroupTarget.TheSendSync as target
use Rattle.fancy_regex_tree.proofs.expr.LookAround.TheSendSync as look_around
use Rattle.fancy_regex_tree.specs.contracts.expr.Expr as expr
use Rattle.fancy_regex_class.proofs.class.CharClassMatcher.TheSendSync as matcher
use Rattle.fancy_regex_class.proofs.folding.CaseiLiteral.TheSendSync as literal
use Rattle.fancy_regex_bytes.proofs.byte_set.ByteSet.TheSendSync as byte_set
use Rattle.fancy_regex_linear.proofs.easy.Easy.TheSendSync as easy
use Rattle.fancy_regex_program.specs.contracts.delegate.Delegate as delegate
use Rattle.fancy_regex_program.specs.contracts.insn.Insn as insn
use Rattle.fancy_regex_program.proofs.insn.AbsentRepeater.TheSendSync as absent
use Rattle.fancy_regex_program.proofs.insn.Callee.TheSendSync as callee
use Rattle.fancy_regex_program.proofs.insn.Repeat.TheSendSync as repeat
use Rattle.fancy_regex_program.proofs.insn.RepeatEpsilon.TheSendSync as unbounded

expr_send : IsSend expr.the_field.row
expr_send =
    search (assertion.the_field_send, verb.the_field_send, target.the_field_send, look_around.the_field_send, crosses, tree.crosses, sendable) depth 60 fits 20000

expr_sync : IsSync expr.the_field.row
expr_sync =
    search (assertion.the_field_sync, verb.the_field_sync, target.the_field_sync, look_around.the_field_sync, crosses, tree.crosses, sendable) depth 60 fits 20000

delegate_send : IsSend delegate.the_row
delegate_send = search (expr_send, byte_set.the_field_send, easy.the_field_send, crosses, sendable) depth 60 fits 20000

delegate_sync : IsSync delegate.the_row
delegate_sync = search (expr_sync, byte_set.the_field_sync, easy.the_field_sync, crosses, sendable) depth 60 fits 20000

pub insn_send : IsSend insn.the_row
insn_send =
    search (
      delegate_send,
      delegate_sync,
      matcher.the_send,
      matcher.the_sync,
      literal.the_field_send,
      assertion.the_field_send,
      repeat.the_send,
      unbounded.the_send,
      absent.the_send,
      callee.the_send,
      callee.the_sync,
      crosses,
      sendable,
    ) depth 60 fits 20000
