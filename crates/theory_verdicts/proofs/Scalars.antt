-- Items of one head, and tags.
use Rattle.std.proofs.Common.{◌≡◌, ℕ, Option, List, ◌++◌, length, refl, ap, ◌∙◌, subst, arith}
use Rattle.cbor_head.specs.Prelude.{head, Bounds, Spelling, unsigned, negative, simple, spell, IsSpelled, depth, value_of, Rules, Complains}
use Rattle.cbor_head.specs.Value as value
use Rattle.cbor_head.specs.declared.major.Major.TheVariants as majors
use Rattle.cbor_head.specs.declared.event.EventKind.TheVariants as kinds
use Rattle.cbor_head.specs.declared.{width.Width.Width, event.EventKind.EventKind}
use Rattle.cbor_machine.specs.NextEvent.{ItemEventsView}
use Rattle.theory_verdicts.specs.Place.{Container, Place, close}
use Rattle.theory_verdicts.specs.Reading.{IsAt, Extends, IsBegun, ReadsItem}
use Rattle.theory_verdicts.proofs.Items.{definite, never-open, is-definite, head-count, extends-none}
use Rattle.theory_verdicts.specs.Judged.{Never}

pub at-as : (b : Bounds) (e : ItemEventsView) (t u : List ℕ) (p q : Place) → t ≡ u → p ≡ q → IsAt b e t p → IsAt b e u q
at-as b e t u p q f g a = subst (λ (x : Place). IsAt b e u x) g (subst (λ (x : List ℕ). IsAt b e x p) f a)

module _ (r : Rules) (b : Bounds) (fs : List Container) (t x : List ℕ) (e : ItemEventsView) (w : Width) (n : ℕ) (from : Option (List ℕ)) where
  -- an item of one head
  reads-one : (kind : EventKind) → (i : IsBegun r b fs t x e w kind) → (s : Spelling) → x ≡ spell s → IsSpelled s → depth s ≡ 0 → Never (Complains r (length t) s) → i.next ≡ close fs → ReadsItem r b fs t x from from e (value_of s)
  reads-one kind i s bytes_are spelled flat clean follows = record {
    item = s;
    spelled = spelled;
    within = omega (arith, flat);
    clean = clean;
    taken = subst (λ (y : List ℕ). Extends x y from from) bytes_are (extends-none x from);
    value = refl;
    at = at-as b e (t ++ x) (t ++ spell s) i.next (close fs) (ap (λ (y : List ℕ). t ++ y) bytes_are) follows i.at;
  }

  pub reads-unsigned : IsBegun r b fs t x e w (kinds.Unsigned n) → ReadsItem r b fs t x from from e (value.unsigned n)
  reads-unsigned i =
      let f = definite b.depth fs majors.Unsigned w n x i.next (never-open b.depth fs majors.Unsigned w n x i.next tt i.taking) i.taking in
      reads-one (kinds.Unsigned n) i (unsigned w n) f.bytes_are f.holds refl (λ c h. i.clean c (head-count r (length t) majors.Unsigned w n c (is-definite w n f.holds) h)) f.follows

  pub reads-negative : IsBegun r b fs t x e w (kinds.Negative n) → ReadsItem r b fs t x from from e (value.negative n)
  reads-negative i =
      let f = definite b.depth fs majors.Negative w n x i.next (never-open b.depth fs majors.Negative w n x i.next tt i.taking) i.taking in
      reads-one (kinds.Negative n) i (negative w n) f.bytes_are f.holds refl (λ c h. i.clean c (head-count r (length t) majors.Negative w n c (is-definite w n f.holds) h)) f.follows

  pub reads-simple : IsBegun r b fs t x e w (kinds.Simple n) → ReadsItem r b fs t x from from e (value.simple n)
  reads-simple i =
      let f = definite b.depth fs majors.Simple w n x i.next (never-open b.depth fs majors.Simple w n x i.next tt i.taking) i.taking in
      reads-one (kinds.Simple n) i (simple n) (f.bytes_are ∙ ap (λ (v : Width). head majors.Simple v n) f.follows.1) f.follows.0 refl (λ c h. h) f.follows.2
