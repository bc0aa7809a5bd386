-- No second answer fits: each promise is an equation with a function of what was lent, and two things that
-- equal a third are equal. And no second tree fits the bytes of an answer, since they are read as one tree.
-- Where the definition refuses, the function of a buffer gives it back as it was.
use mathlib.Core.Path.{◌≡◌, refl, sym, ap, ap₂, ◌∙◌}
use mathlib.Core.List.{List}
use mathlib.Core.Option.{Option}
use Prim.Native.Nat.{ℕ}
use Rattle.paper.specs.Answer.{Answer, ok, refused}
use Rattle.paper.specs.Rows.{Row}
use Rattle.paper.specs.Decode.{decode}
use Rattle.paper.specs.Encode.{record_bytes, pool_bytes}
use Rattle.paper.specs.Entries.{Result}
use Rattle.paper.specs.Outcome.{changed, Found, searched, leaves, Buffer, Answers}
use Rattle.laws.proofs.Basics.{ok_is}
use Rattle.theorems.specs.Again.{ReadsAgain}
use Rattle.theorems.specs.One.{PromisedFound, Untouched, NoByteChanges}

pub one_answer : {R A : Type 0} (says : Answer R → A) (answer : Answer R) (buffers : List (Buffer R))
    → (said said' : A) (news news' : List (List ℕ)) → Answers says answer buffers said news
    → Answers says answer buffers said' news' → (said ≡ said') × (news ≡ news')
one_answer says answer buffers said said' news news' h k = (h.told ∙ sym k.told, h.left ∙ sym k.left)

pub one_found : (a : Answer (Option Row)) (x y : Found) → PromisedFound a x → PromisedFound a y → x ≡ y
one_found a x y p q = p ∙ sym q

-- `number` is what is told of a refusal, and 0 of an acceptance.
untouched : {R A : Type 0} (says : Answer R → A) (number : A → ℕ) → ((r : R) → number (says (ok r)) ≡ 0)
    → (answer : Answer R) (buffers : List (Buffer R)) (said : A) (news : List (List ℕ))
    → Answers says answer buffers said news → (number said ≡ 0 → ⊥) → Untouched buffers news
unfolding leaves
untouched says number zero (ok r) buffers said news h f = absurd (f (ap number h.told ∙ zero r))
untouched says number zero (refused n l p) buffers said news h f = h.left

pub no_byte_changes : NoByteChanges
unfolding leaves changed searched
no_byte_changes =
    record {
      refused_by = λ says n l p buffers said news h. h.left;
      told = untouched changed (λ c. c.refusal) (λ r. refl);
      told_searched = untouched searched (λ c. c.refusal) (λ r. refl);
    }

pub one_tree : (r r' : Result) → ReadsAgain r → ReadsAgain r'
    → record_bytes r.tree ≡ record_bytes r'.tree
    → pool_bytes r.tree ≡ pool_bytes r'.tree → r.tree ≡ r'.tree
one_tree r r' h h' e e' = ok_is (sym h.decodes ∙ ap₂ (decode 0) e e' ∙ h'.decodes)
