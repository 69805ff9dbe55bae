mod StaysOpen
