use Rattle.std.proofs.Common.{◌∙◌, ◌++◌, ◌==◌, ℕ, List, [], refl, ap, sym, subst, arith, length, get_or, append-nil, eqb-true}
use Rattle.std.proofs.lemmas.{Bool.false≢true, List.nil_from_length}
use Rattle.cbor_head.specs.Head.{head, HeadParts, IsHead}
use Rattle.cbor_head.proofs.Arguments.{no_bytes, head_here, reads_head, same_parts}
use Rattle.cbor_head.proofs.head.Head.read.Goals as goal
use Rattle.cbor_head.specs.declared.major.Major.{Major}
use Rattle.cbor_head.proofs.head.Head.read.Goals.{else-is_empty-via-then-is_empty+else-is_head, else-is_empty-via-else-is_empty}

pub returns-in_err-first-clause-each : goal.returns-in_err-first-clause-each
returns-in_err-first-clause-each c = λ m w n h is. absurd (no_bytes m w n (sym (nil_from_length c.args.bytes.now c.in_err-first.ensures.cases) ∙ is))

pub returns-in_err-argument-clause-each : goal.returns-in_err-argument-clause-each
returns-in_err-argument-clause-each c = λ m w n h is.
    let s = reads_head c.in_ok-first.first.now c.in_ok-first.following.now m w n [] h (sym c.in_ok-first.ensures.cases.0 ∙ is ∙ sym (append-nil (head m w n))) in
    let e = c.in_err-argument.ensures in
    absurd (omega (arith, s.space (e.long refl), e.cut refl s.low))

pub is_head-requires : goal.is_head-requires
is_head-requires c = c.in_ok-argument.ensures.spelled.holds

pub returns-then-is_head-clause-found : goal.returns-then-is_head-clause-found
returns-then-is_head-clause-found c =
    let a = c.in_ok-argument.argument in
    let split = c.in_ok-first.ensures.cases.0 in
    let none = nil_from_length a.rest.now (eqb-true (length a.rest.now) 0 (sym c.is_empty.ensures ∙ c.if-is_empty.true)) in
    let here = head_here c.in_ok-first.first.now c.in_ok-first.following.now a.width a.number a.rest.now (omega (arith, c.type_inv.bytes 0, ap (λ (l : List ℕ). get_or l 0 0) split)) c.in_ok-argument.ensures.spelled in
    split ∙ here ∙ ap (λ (m : Major). head m a.width a.number ++ a.rest.now) (sym c.of_number-major.ensures.major)
    ∙ ap (λ (l : List ℕ). head c.of_number-major.result a.width a.number ++ l) none ∙ append-nil (head c.of_number-major.result a.width a.number)

pub returns-then-is_head-clause-each : goal.returns-then-is_head-clause-each
returns-then-is_head-clause-each c = λ m w n h is.
    let a = c.in_ok-argument.argument in
    let s = reads_head c.in_ok-first.first.now c.in_ok-first.following.now m w n [] h (sym c.in_ok-first.ensures.cases.0 ∙ is ∙ sym (append-nil (head m w n))) in
    let o = s.only a.width a.number a.rest.now c.in_ok-argument.ensures.spelled in
    let e = same_parts c.in_ok-first.first.now m a.width w a.number n s.type o.0 o.1 in
    cc

pub returns-else-is_empty-clause-each : goal.returns-else-is_empty-clause-each
returns-else-is_empty-clause-each c = λ m w n h is.
    let a = c.in_ok-argument.argument in
    let s = reads_head c.in_ok-first.first.now c.in_ok-first.following.now m w n [] h (sym c.in_ok-first.ensures.cases.0 ∙ is ∙ sym (append-nil (head m w n))) in
    let o = s.only a.width a.number a.rest.now c.in_ok-argument.ensures.spelled in
    let IsThat : HeadParts → Type 0 = λ f. IsHead f.major f.width f.argument in
    let same = same_parts c.in_ok-first.first.now m a.width w a.number n s.type o.0 o.1 in
    let one = subst (λ (k : Major). IsHead k a.width a.number) (sym c.of_number-major.ensures.major) (subst IsThat (sym same) h) in
    absurd (elim c.else-is_empty.branch [
      | else-is_empty-via-then-is_empty+else-is_head x ↦ false≢true (sym x.if-is_head.false ∙ x.is_head.ensures.1 one)
      | else-is_empty-via-else-is_empty x ↦ false≢true (sym x.if-is_empty.false ∙ c.is_empty.ensures ∙ ap (λ (l : List ℕ). length l == 0) o.2)
    ])
