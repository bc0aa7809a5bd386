-- A chain of tests: where a test was refused the chain is, and where it was fine the chain goes on.
use Rattle.std.proofs.Common.{◌≡◌, ℕ, List, map, refl, arith}
use mathlib.Core.Option.{Option, none, some}
use Rattle.paper.specs.Answer.{Answer, ok, refused, ◌>>=◌, fault}
use Rattle.paper.specs.Entries.{Result}
use Rattle.paper.specs.Outcome.{leaves, Buffer, Answers}
use Rattle.record.specs.declared.Refusal.{Refusal}
use Rattle.record.specs.Answers.{Check}
use Rattle.std.specs.Prelude.{Ok, Err}
use Rattle.record.specs.Says.{tested, checked, changes}

abbrev pub refused_as : {A : Type 0} → Refusal → Answer A
refused_as r = refused r.number r.list r.place

pub tested_fault : (number li : ℕ) (o : Option ℕ) → tested number li o ≡ checked (fault number li o)
unfolding tested checked
tested_fault number li none = refl
tested_fault number li (some p) = refl

pub was_fine : (number li : ℕ) (o : Option ℕ) (a : Check) → a ≡ tested number li o → a ≡ (Ok tt) → o ≡ none
unfolding tested
was_fine number li none a e d = refl
was_fine number li (some p) a e d = let z : ◌≡◌ {A = ℕ} 0 1 = cc in absurd (omega arith)

pub chain_goes : {A : Type 0} (number li : ℕ) (o : Option ℕ) (a : Check) (f : Unit {0} → Answer A) → a ≡ tested number li o → a ≡ (Ok tt) → (fault number li o >>= f) ≡ f tt
unfolding ◌>>=◌
chain_goes number li o a f e d = rw (was_fine number li o a e d)

pub chain_stops : {A : Type 0} (number li : ℕ) (o : Option ℕ) (a : Check) (f : Unit {0} → Answer A) (r : Refusal) → a ≡ tested number li o → a ≡ Err r → (fault number li o >>= f) ≡ refused_as r
unfolding tested ◌>>=◌
chain_stops number li none a f r e d = let z : ◌≡◌ {A = ℕ} 0 1 = cc in absurd (omega arith)
chain_stops number li (some p) a f r e d = cc

pub checked_ok : (x : Answer (Unit {0})) (a : Check) → a ≡ checked x → a ≡ (Ok tt) → x ≡ ok tt
unfolding checked
checked_ok (ok tt) a e d = refl
checked_ok (refused n l p) a e d = let z : ◌≡◌ {A = ℕ} 0 1 = cc in absurd (omega arith)

pub checked_refused : (x : Answer (Unit {0})) (a : Check) (r : Refusal) → a ≡ checked x → a ≡ Err r → x ≡ refused_as r
unfolding checked
checked_refused (ok u) a r e d = let z : ◌≡◌ {A = ℕ} 0 1 = cc in absurd (omega arith)
checked_refused (refused n l p) a r e d = cc

-- A refusal changes no byte of any buffer.
pub refuses : (x : Answer Result) (y : Refusal) (buffers : List (Buffer Result)) → x ≡ refused_as y
    → Answers changes x buffers (Err y) (map (λ (buffer : Buffer Result). buffer.old) buffers)
unfolding changes leaves
refuses x y buffers e = rw e (record { told = refl; left = refl })
