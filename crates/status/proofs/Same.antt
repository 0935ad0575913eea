-- Texts of what is equal are equal.
use Rattle.std.proofs.Common.{◌≡◌, ap, ◌∙◌}

pub same_of_3 : {A B C D : Type 0} (f : A → B → C → D) (a x : A) (b y : B) (c z : C) → a ≡ x → b ≡ y → c ≡ z
    → f a b c ≡ f x y z
same_of_3 f a x b y c z p q r = ap (λ t. f t b c) p ∙ ap (λ t. f x t c) q ∙ ap (λ t. f x y t) r

pub same_of_4 : {A B C D E : Type 0} (f : A → B → C → D → E) (a x : A) (b y : B) (c z : C) (d w : D) → a ≡ x → b ≡ y
    → c ≡ z → d ≡ w → f a b c d ≡ f x y z w
same_of_4 f a x b y c z d w p q r s =
    ap (λ t. f t b c d) p ∙ ap (λ t. f x t c d) q ∙ ap (λ t. f x y t d) r ∙ ap (λ t. f x y z t) s
