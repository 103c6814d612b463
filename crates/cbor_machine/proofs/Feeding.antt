-- One step after another.
use Rattle.std.proofs.Common.{◌≡◌, ℕ, ◌+◌, ◌-◌, ◌≤◌, List, [], ◌++◌, length, take, drop, ap, sym, ◌∙◌, arith, append-nil, append_assoc, subst, length-drop, take-append-drop, take_all}
use Rattle.std.proofs.Math.Seq.{take-add, take-length}
use Rattle.theory_automaton.specs.Trace.{Mark}
use Rattle.cbor_machine.specs.Machine.{Represents, IsResult, IsMore}
use Rattle.cbor_machine.specs.declared.step.Out.TheVariants as outs
use Rattle.cbor_machine.specs.{MachineView.MachineView, Steps.Goes, declared.step.Out.Out}

pub goes-on : (old mid new : MachineView) (xs ys all : List ℕ) (added : List Mark) → Goes old mid xs → ((t : List ℕ) (ms : List Mark) → Represents mid t ms → Represents new (t ++ ys) (ms ++ added)) → xs ++ ys ≡ all → Goes old new all
goes-on old mid new xs ys all added g next e = λ t ms h.
    let first = g t ms h in
    let ns = first.0 in
    let last = next (t ++ xs) (ms ++ ns) first.1 in
    let bytes : (t ++ xs) ++ ys ≡ t ++ all = append_assoc t xs ys ∙ ap (λ zs. t ++ zs) e in
    let last' = subst (λ (zs : List ℕ). Represents new zs ((ms ++ ns) ++ added)) bytes last in
    (ns ++ added, subst (λ (zs : List Mark). Represents new (t ++ all) zs) (append_assoc ms ns added) last')

pub more-returned : (out : Out) (m : MachineView) (t bs : List ℕ) (ms : List Mark) → IsMore out → IsResult out m t bs ms → Represents m (t ++ bs) (ms ++ [])
more-returned outs.More m t bs ms i a = subst (λ (ns : List Mark). Represents m (t ++ bs) ns) (sym (append-nil ms)) a
more-returned _ m t bs ms i a = absurd i

pub split-at : (at used : ℕ) (xs : List ℕ) → take at xs ++ take used (drop at xs) ≡ take (at + used) xs
split-at at used xs = sym (take-add at used xs)

pub split-all : (at used : ℕ) (xs : List ℕ) → used ≡ length (drop at xs) → take at xs ++ take used (drop at xs) ≡ xs
split-all at used xs e = ap (λ n. take at xs ++ take n (drop at xs)) e ∙ ap (λ ys. take at xs ++ ys) (take-length (drop at xs)) ∙ take-append-drop at xs

-- what `&xs[at..]` is
abbrev pub rest_from : ℕ → List ℕ → List ℕ
rest_from at xs = take (length xs - at) (drop at xs)

pub rest-is : (at : ℕ) (xs : List ℕ) → rest_from at xs ≡ drop at xs
rest-is at xs = take_all (length xs - at) (drop at xs) (omega (arith, length-drop at xs))

pub split-rest : (at used : ℕ) (xs : List ℕ) → take at xs ++ take used (rest_from at xs) ≡ take (at + used) xs
split-rest at used xs = ap (λ ys. take at xs ++ take used ys) (rest-is at xs) ∙ split-at at used xs

pub split-whole : (at used : ℕ) (xs : List ℕ) → used ≡ length (rest_from at xs) → take at xs ++ take used (rest_from at xs) ≡ xs
split-whole at used xs e = ap (λ ys. take at xs ++ take used ys) (rest-is at xs) ∙ split-all at used xs (e ∙ ap length (rest-is at xs))

pub fits-rest : (at used : ℕ) (xs : List ℕ) → at ≤ length xs → used ≤ length (rest_from at xs) → at + used ≤ length xs
fits-rest at used xs h k = omega (arith, ap length (rest-is at xs), length-drop at xs)
