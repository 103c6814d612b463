use Rattle.std.proofs.Common.{◌≡◌, ℕ, ◌∷◌, Bool, Option, Some, sym, ◌∙◌, subst, MatchOption, None, true, false, arith}
use Rattle.cbor_head.specs.declared.reason.Refusal.{Refusal}
use Rattle.cbor_parser.proofs.item_start.indefinite_start.Goals as goal
use Rattle.cbor_parser.proofs.item_start.indefinite_start.Goals.{in-95, in-127, in_default}
use Rattle.cbor_parser.specs.declared.item_start.ItemStart.TheVariants as starts
use Rattle.cbor_parser.specs.inner.{Begins.AreWholeChunks, Faults.AreChunksRefused, Faults.IsIndefiniteStart}

pub returns-in-Some : goal.returns-in-Some
returns-in-Some c =
    let a = c.args in
    let f = c.in-Some.refusal in
    let found : AreChunksRefused (a.first ∷ a.following.now) a.at f = elim c.match-first.branch [
      | in-95 w ↦ refused 95 w.in-95.is _ (sym w.chunks-is ∙ c.in-Some.is) _ w.chunks_fault-chunks.ensures
      | in-127 w ↦ refused 127 w.in-127.is _ (sym w.chunks-is ∙ c.in-Some.is) _ w.chunks_fault-chunks-in-127.ensures
      | in_default w ↦ absurd (cc (sym w.chunks-is ∙ c.in-Some.is))
    ] in
    subst (λ (s : Bool). IsIndefiniteStart s a.first a.following.now a.at (starts.Refused f)) (sym c.if-is_strict.false) found
  where
    refused : (byte : ℕ) → c.args.first ≡ byte → (found : Option Refusal) → found ≡ Some c.in-Some.refusal → (X : Type 0) → MatchOption found X (AreChunksRefused (byte ∷ c.args.following.now) c.args.at) → AreChunksRefused (c.args.first ∷ c.args.following.now) c.args.at c.in-Some.refusal
    refused byte is found some X h =
        subst (λ (x : ℕ). AreChunksRefused (x ∷ c.args.following.now) c.args.at c.in-Some.refusal) (sym is) (subst (λ (o : Option Refusal). MatchOption o X (AreChunksRefused (byte ∷ c.args.following.now) c.args.at)) some h)

pub returns-in-None : goal.returns-in-None
returns-in-None c =
    let a = c.args in
    subst (λ (s : Bool). IsIndefiniteStart s a.first a.following.now a.at starts.Indefinite) (sym c.if-is_strict.false) (
      λ e. elim c.match-first.branch [
        | in-95 w ↦ whole false _ (sym w.chunks-is ∙ c.in-None.is) _ w.chunks_fault-chunks.ensures
        | in-127 w ↦ absurd (omega (arith, e, w.in-127.is))
        | in_default w ↦ absurd (w.in_default.in_default-own.rest.0.1 e)
      ],
      λ e. elim c.match-first.branch [
        | in-95 w ↦ absurd (omega (arith, e, w.in-95.is))
        | in-127 w ↦ whole true _ (sym w.chunks-is ∙ c.in-None.is) _ w.chunks_fault-chunks-in-127.ensures
        | in_default w ↦ absurd (w.in_default.in_default-own.rest.1 e)
      ],
    )
  where
    whole : (t : Bool) (found : Option Refusal) → found ≡ None → (P : Refusal → Type 0) → MatchOption found (AreWholeChunks t c.args.following.now) P → AreWholeChunks t c.args.following.now
    whole t found none P h = subst (λ (o : Option Refusal). MatchOption o (AreWholeChunks t c.args.following.now) P) none h
