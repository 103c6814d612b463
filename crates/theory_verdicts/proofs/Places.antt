-- A position between two events, and the automaton there.
use Rattle.std.proofs.Common.{◌≡◌, ℕ, zero, suc, ◌+◌, Bool, true, false, List, ◌∷◌, length, refl, sym, ap, ◌∙◌}
use Rattle.cbor_head.specs.declared.major.Major.TheVariants as majors
use Rattle.cbor_head.specs.declared.{major.Major.Major, width.Width.Width, width.Width.TheVariants.Indefinite}
use Rattle.theory_automaton.specs.Trace.{Mark, a_head, a_chunk, a_byte, a_break}
use Rattle.theory_automaton.specs.Automaton as automaton
use Rattle.theory_automaton.specs.Taking as taking
use Rattle.theory_automaton.{specs.Automaton.State, proofs.Opens.stack, proofs.Taking.IsClear}
use Rattle.theory_verdicts.specs.Place.{Container, counted, indefinite_array, indefinite_map, Place, at_item, in_payload, in_chunks, done, open_at, close, expect, close_string, payload, Follows, Opens, Ends, IsTaking}
use Rattle.theory_verdicts.specs.Reading.{state_at}

-- ---- from the automaton

-- where a head began, within it
abbrev pub place_of : State → Place
place_of (automaton.at_item fs) = at_item fs
place_of (automaton.in_head true m w k acc fs) = in_chunks m fs
place_of (automaton.in_head false m w k acc fs) = at_item fs
place_of (automaton.in_simple fs) = at_item fs
place_of (automaton.in_payload chunk m n fs) = in_payload chunk m n fs
place_of (automaton.in_chunks m fs) = in_chunks m fs
place_of automaton.done = done

pub place-back : (q : Place) → place_of (state_at q) ≡ q
place-back (at_item cs) = refl
place-back _ = refl

pub state-back : (s : State) → IsClear s → state_at (place_of s) ≡ s
state-back (automaton.in_head chunk m w k acc fs) h = absurd h
state-back (automaton.in_simple fs) h = absurd h
state-back _ h = refl

-- two places with one state are one
pub one-place : (p q : Place) → state_at p ≡ state_at q → p ≡ q
one-place p q e = sym (place-back p) ∙ ap place_of e ∙ place-back q

pub clear-at : (q : Place) → IsClear (state_at q)
clear-at (at_item cs) = tt
clear-at _ = tt

pub open-frames : (q : Place) → length (stack (state_at q)) ≡ length (open_at q)
open-frames (at_item cs) = refl
open-frames _ = refl

-- ---- where an item, or a part of one, leaves off

pub close-at : (cs : List Container) → automaton.close cs ≡ state_at (close cs)
close-at (counted zero ∷ cs) = close-at cs
close-at _ = refl

pub expect-at : (n : ℕ) (cs : List Container) → automaton.expect n cs ≡ state_at (expect n cs)
expect-at zero cs = close-at cs
expect-at (suc n) cs = refl

pub string-at : (chunk : Bool) (m : Major) (cs : List Container) → automaton.close_string chunk m cs ≡ state_at (close_string chunk m cs)
string-at true m cs = refl
string-at false m cs = close-at cs

pub payload-at : (chunk : Bool) (m : Major) (n : ℕ) (cs : List Container) → automaton.payload chunk m n cs ≡ state_at (payload chunk m n cs)
payload-at chunk m zero cs = string-at chunk m cs
payload-at chunk m (suc n) cs = refl

-- ---- where a mark leads

leads : (u : State) (s : State) (q : Place) → u ≡ s → s ≡ state_at q → place_of u ≡ q
leads u s q e f = ap place_of (e ∙ f) ∙ place-back q

module _ (d : ℕ) (cs : List Container) (u : State) where
  follows : (m : Major) (w : Width) (n : ℕ) → taking.Follows d cs m w n u → Follows d cs m w n (place_of u)
  follows majors.Unsigned w n h = leads u _ (close cs) h (close-at cs)
  follows majors.Negative w n h = leads u _ (close cs) h (close-at cs)
  follows majors.Bytes w n h = leads u _ (payload false majors.Bytes n cs) h (payload-at false majors.Bytes n cs)
  follows majors.Text w n h = leads u _ (payload false majors.Text n cs) h (payload-at false majors.Text n cs)
  follows majors.Array w n h = (h.0, leads u _ (expect n cs) h.1 (expect-at n cs))
  follows majors.Map w n h = (h.0, leads u _ (expect (n + n) cs) h.1 (expect-at (n + n) cs))
  follows majors.Tag w n h = (h.0, leads u _ (expect 1 cs) h.1 (expect-at 1 cs))
  follows majors.Simple w n h = (h.0, h.1, leads u _ (close cs) h.2 (close-at cs))

  opens : (m : Major) → taking.Opens d cs m u → Opens d cs m (place_of u)
  opens majors.Bytes h = leads u _ (in_chunks majors.Bytes cs) h refl
  opens majors.Text h = leads u _ (in_chunks majors.Text cs) h refl
  opens majors.Array h = (h.0, leads u _ (at_item (indefinite_array ∷ cs)) h.1 refl)
  opens majors.Map h = (h.0, leads u _ (at_item (indefinite_map false ∷ cs)) h.1 refl)
  opens _ h = absurd h

ends : (cs : List Container) (u : State) → taking.Ends cs u → Ends cs (place_of u)
ends (indefinite_array ∷ cs) u h = leads u _ (close cs) h (close-at cs)
ends (indefinite_map false ∷ cs) u h = leads u _ (close cs) h (close-at cs)
ends _ u h = absurd h

-- what one mark is there, and where it leads
pub taking-at : (d : ℕ) (q : Place) (m : Mark) (bs : List ℕ) (u : State) → taking.IsTaking d (state_at q) m bs u → IsTaking d q m bs (place_of u)
taking-at d (at_item cs) (a_head m Indefinite n) bs u h = (h.0, h.1, opens d cs u m h.2)
taking-at d (at_item cs) (a_head m w n) bs u h = (h.0, h.1, follows d cs u m w n h.2)
taking-at d (at_item cs) a_break bs u h = (h.0, ends cs u h.1)
taking-at d (in_chunks k cs) (a_chunk w n) bs u h = (h.0, h.1, leads u _ (payload true k n cs) h.2 (payload-at true k n cs))
taking-at d (in_chunks k cs) a_break bs u h = (h.0, leads u _ (close cs) h.1 (close-at cs))
taking-at d (in_payload chunk k zero cs) a_byte bs u h = (h.0, leads u _ (close_string chunk k cs) h.1 (string-at chunk k cs))
taking-at d (in_payload chunk k (suc n) cs) a_byte bs u h = (h.0, leads u _ (in_payload chunk k n cs) h.1 refl)
taking-at d _ _ bs u h = absurd h
