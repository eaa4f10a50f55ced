mod ModeLaws
mod StayLaws
mod WordLaws
