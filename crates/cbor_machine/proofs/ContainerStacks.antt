-- The stack, with its innermost container in a field of its own, as a list of frames.
use Rattle.std.proofs.Common.{◌≡◌, ℕ, zero, suc, ◌+◌, ◌-◌, ◌≤◌, ◌<◌, true, false, List, [], ◌∷◌, ◌++◌, map, take, drop, length, get_or, set, Some, add-one, refl, sym, ap, ◌∙◌, subst, arith, slice_get, length-append, length-set, length-take-le}
use Rattle.std.proofs.{lemmas.List.length-map, lemmas.List.map-append, lemmas.Option.get_or_from_slice_get, Math.Seq.take-suc}
use Rattle.theory_automaton.specs.Automaton as automaton
use Rattle.theory_automaton.specs.Automaton.{at_item, close, break_at, reports, indefinite_array, indefinite_map, counted}
use Rattle.theory_automaton.specs.Trace.{a_break}
use Rattle.cbor_machine.specs.ContainerStack.{level_frame, joined, levels, nested, IsRooted, IsContainerStack, advanced, ends_by_break}
use Rattle.cbor_machine.specs.{State.frame_of, State.frames_of, declared.frame.TheConstants.MOST_OPEN, declared.frame.Frame.Frame}
use Rattle.cbor_machine.specs.declared.{frame.Frame.TheVariants.Tag, container_stack.Slot.Slot, container_stack.Level.Level}
use Rattle.cbor_machine.proofs.Frames.{frames_push}

pub nested-length : (outer : List Level) (h : ℕ) (top : Level) → h ≤ length outer → length (nested outer h top) ≡ h
nested-length outer zero top k = refl
nested-length [] (suc h) top k = absurd (omega arith)
nested-length (o ∷ os) (suc h) top k =
    let short : h ≤ length os = omega arith in
    length-map (take h os ++ top ∷ []) level_frame ∙ length-append (take h os) (top ∷ []) ∙ ap (λ n. n + 1) (length-take-le h os short) ∙ omega arith

-- the innermost one, and those around it
pub around : List Level → ℕ → List Frame
around os k = map level_frame (take k os)

pub frames-top : (o : Level) (os : List Level) (k : ℕ) (top : Level) → frames_of (nested (o ∷ os) (suc k) top) ≡ frame_of (level_frame top) ∷ frames_of (around os k)
unfolding around
frames-top o os k top = ap frames_of (map-append level_frame (take k os) (top ∷ [])) ∙ frames_push (map level_frame (take k os)) (level_frame top)

around-below : (o : Level) (os : List Level) (k : ℕ) (d : Level) → k < length (o ∷ os) → nested (o ∷ os) k (get_or (o ∷ os) k d) ≡ around os k
unfolding around
around-below o os zero d h = refl
around-below o os (suc k) d h = ap (map level_frame) (sym (take-suc os k d (omega arith)))

only-root : (outer : List Level) (top : Level) → IsRooted outer zero top → level_frame top ≡ Tag
only-root outer top r = let e = r.root in cc

-- the innermost continues
pub goes-on : (outer : List Level) (h : ℕ) (top next : Level) → IsRooted outer h top
    → ((fs : List automaton.Frame) → close (frame_of (level_frame top) ∷ fs) ≡ advanced true (frame_of (level_frame next)) fs) → (level_frame top ≡ Tag → true ≡ false)
    → IsRooted outer h next × (at_item (frames_of (nested outer h next)) ≡ close (frames_of (nested outer h top)))
goes-on outer zero top next r moved root = absurd (let e = root (only-root outer top r) in cc)
goes-on [] (suc k) top next r moved root = absurd (omega (arith, r.space))
goes-on (o ∷ os) (suc k) top next r moved root = (
  record { space = r.space; fits = r.fits; root = let e = r.root in let first : level_frame o ≡ Tag = cc in ap (λ f. f ∷ nested (o ∷ os) (suc k) next) first },
  ap at_item (frames-top o os k next) ∙ sym (moved (frames_of (around os k))) ∙ ap close (sym (frames-top o os k top)),
)

-- without the innermost
popped : (outer : List Level) (k : ℕ) (top d : Level) → IsRooted outer (suc k) top
    → IsRooted outer k (get_or outer k d) × (frames_of (nested outer (suc k) top) ≡ frame_of (level_frame top) ∷ frames_of (nested outer k (get_or outer k d)))
popped [] k top d r = absurd (omega (arith, r.space))
popped (o ∷ os) k top d r = (
  record { space = r.space; fits = omega (arith, r.fits); root = let e = r.root in let first : level_frame o ≡ Tag = cc in rooted k first },
  frames-top o os k top ∙ ap (λ gs. frame_of (level_frame top) ∷ frames_of gs) (sym (around-below o os k d (omega (arith, r.space, r.fits)))),
)
  where
    rooted : (j : ℕ) → level_frame o ≡ Tag → levels (o ∷ os) j (get_or (o ∷ os) j d) ≡ Tag ∷ nested (o ∷ os) j (get_or (o ∷ os) j d)
    rooted zero e = ap (λ f. f ∷ []) e
    rooted (suc j) e = ap (λ f. f ∷ nested (o ∷ os) (suc j) (get_or (o ∷ os) (suc j) d)) e

-- the same, where this one is around it
pub popped-to : (outer : List Level) (h : ℕ) (top below : Level) → 0 < h → slice_get outer (h - 1) ≡ Some below → IsRooted outer h top
    → IsRooted outer (h - 1) below × (frames_of (nested outer h top) ≡ frame_of (level_frame top) ∷ frames_of (nested outer (h - 1) below))
popped-to outer zero top below some at r = absurd (omega arith)
popped-to outer (suc k) top below some at r =
    let one : suc k - 1 ≡ k = omega arith in
    let there : get_or outer k below ≡ below = get_or_from_slice_get outer k below below (subst (λ j. slice_get outer j ≡ Some below) one at) in
    let Is : ℕ → Level → Type 0 = λ j l. IsRooted outer j l × (frames_of (nested outer (suc k) top) ≡ frame_of (level_frame top) ∷ frames_of (nested outer j l)) in
    subst (λ j. Is j below) (sym one) (subst (Is k) there (popped outer k top below r))

-- if the innermost is full, the item completes the containers around it
pub full-closes : (outer : List Level) (h : ℕ) (top below : Level) → 0 < h → slice_get outer (h - 1) ≡ Some below → IsRooted outer h top → ((fs : List automaton.Frame) → close (frame_of (level_frame top) ∷ fs) ≡ close fs)
    → close (frames_of (nested outer (h - 1) below)) ≡ close (frames_of (nested outer h top))
full-closes outer h top below some at r full = sym (full (frames_of (nested outer (h - 1) below))) ∙ ap close (sym (popped-to outer h top below some at r).1)

-- a break ends it
pub breaks : (f : automaton.Frame) (fs : List automaton.Frame) (c : ℕ) → true ≡ ends_by_break f → break_at (f ∷ fs) c ≡ reports a_break (close fs)
breaks indefinite_array fs c e = refl
breaks (indefinite_map false) fs c e = refl
breaks (indefinite_map true) fs c e = absurd (cc)
breaks (counted n) fs c e = absurd (cc)

pub ends-here : (outer : List Level) (h : ℕ) (top below : Level) (to : automaton.State) → 0 < h → slice_get outer (h - 1) ≡ Some below → IsRooted outer h top → true ≡ ends_by_break (frame_of (level_frame top)) → to ≡ close (frames_of (nested outer (h - 1) below))
    → (c : ℕ) → break_at (frames_of (nested outer h top)) c ≡ reports a_break to
ends-here outer h top below to some at r e is c =
    ap (λ fs. break_at fs c) (popped-to outer h top below some at r).1 ∙ breaks (frame_of (level_frame top)) (frames_of (nested outer (h - 1) below)) c e ∙ ap (reports a_break) (sym is)

-- ---- one of them, from the outermost in

following-all : (os : List Level) (k : ℕ) (top : Level) → k ≤ length os → slice_get (map level_frame (take k os ++ top ∷ [])) k ≡ Some (level_frame top)
following-all os zero top h = refl
following-all [] (suc k) top h = absurd (omega arith)
following-all (o ∷ os) (suc k) top h = following-all os k top (omega arith)

pub frame-innermost : (outer : List Level) (h i : ℕ) (top : Level) → h ≡ i + 1 → h ≤ length outer → slice_get (nested outer h top) i ≡ Some (level_frame top)
frame-innermost outer zero i top e h = absurd (omega arith)
frame-innermost [] (suc k) i top e h = absurd (omega arith)
frame-innermost (o ∷ os) (suc k) i top e h = let same : k ≡ i = omega arith in subst (λ j. slice_get (nested (o ∷ os) (suc k) top) j ≡ Some (level_frame top)) same (following-all os k top (omega arith))

-- ---- the two arrays as levels

pub joined-at : (ds : List Slot) (ns : List ℕ) (k : ℕ) (d : Slot) → k < length ds → k < length ns → slice_get (joined ds ns) k ≡ Some (record { expected = get_or ds k d; left = get_or ns k 0 })
joined-at [] ns k d h l = absurd (omega arith)
joined-at (x ∷ ds) [] k d h l = absurd (omega arith)
joined-at (x ∷ ds) (n ∷ ns) zero d h l = refl
joined-at (x ∷ ds) (n ∷ ns) (suc k) d h l = joined-at ds ns k d (omega arith) (omega arith)

joined-take : (ds : List Slot) (ns : List ℕ) (k : ℕ) (d : Slot) (n : ℕ) → k < length ds → k < length ns → take (suc k) (joined (set ds k d) (set ns k n)) ≡ take k (joined ds ns) ++ record { expected = d; left = n } ∷ []
joined-take [] ns k d n h l = absurd (omega arith)
joined-take (x ∷ ds) [] k d n h l = absurd (omega arith)
joined-take (x ∷ ds) (y ∷ ns) zero d n h l = refl
joined-take (x ∷ ds) (y ∷ ns) (suc k) d n h l = ap (λ vs. record { expected = x; left = y } ∷ vs) (joined-take ds ns k d n (omega arith) (omega arith))

joined-length : (n : ℕ) (ds : List Slot) (ns : List ℕ) → length ds ≡ n → length ns ≡ n → length (joined ds ns) ≡ n
joined-length n [] ns d l = d
joined-length n (x ∷ ds) [] d l = absurd (omega arith)
joined-length zero (x ∷ ds) (y ∷ ns) d l = absurd (omega arith)
joined-length (suc n) (x ∷ ds) (y ∷ ns) d l = ap suc (joined-length n ds ns (omega arith) (omega arith))

-- one more container opens inside these
module _ (ds : List Slot) (ns : List ℕ) (h : ℕ) (top next : Level) (r : IsContainerStack ds ns h top) where
  ds-with : List Slot
  ds-with = set ds h top.expected

  ns-with : List ℕ
  ns-with = set ns h top.left

  levels-pushed : levels (joined ds-with ns-with) (h + 1) next ≡ levels (joined ds ns) h top ++ level_frame next ∷ []
  unfolding ds-with ns-with
  levels-pushed =
      let fits = r.rooted.fits in
      let taken : take (h + 1) (joined ds-with ns-with) ≡ take h (joined ds ns) ++ top ∷ [] =
      ap (λ j. take j (joined ds-with ns-with)) (add-one h) ∙ joined-take ds ns h top.expected top.left (omega (arith, r.slots_space)) (omega (arith, r.lefts_space)) in
      ap (λ vs. map level_frame (vs ++ next ∷ [])) taken ∙ map-append level_frame (take h (joined ds ns) ++ top ∷ []) (next ∷ [])

  pushed-all : levels (joined ds-with ns-with) (h + 1) next ≡ Tag ∷ (nested (joined ds ns) h top ++ level_frame next ∷ [])
  pushed-all = levels-pushed ∙ ap (λ fs. fs ++ level_frame next ∷ []) r.rooted.root

  pub pushed : nested (joined (set ds h top.expected) (set ns h top.left)) (h + 1) next ≡ nested (joined ds ns) h top ++ level_frame next ∷ []
  unfolding ds-with ns-with
  pushed = ap (drop 1) pushed-all

  pub pushed-container_stack : h < MOST_OPEN → IsContainerStack (set ds h top.expected) (set ns h top.left) (h + 1) next
  unfolding ds-with ns-with
  pushed-container_stack space =
      let d : length (set ds h top.expected) ≡ MOST_OPEN + 1 = length-set ds h top.expected ∙ r.slots_space in
      let n : length (set ns h top.left) ≡ MOST_OPEN + 1 = length-set ns h top.left ∙ r.lefts_space in
      record {
        slots_space = d;
        lefts_space = n;
        rooted = record {
          space = joined-length (MOST_OPEN + 1) _ _ d n;
          fits = omega arith;
          root = pushed-all ∙ ap (λ fs. Tag ∷ fs) (sym pushed);
        };
      }
